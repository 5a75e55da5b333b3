pub mod Bounds
pub mod Pairs
pub mod Rates
pub mod Wanted
pub mod ZoneBounds
