pub mod Amounts
pub mod Contribs
pub mod Features
pub mod Level
pub mod Optional
pub mod Wanted
pub mod ZoneTargets
