pub mod Locks
pub mod Named
pub mod Terms
pub mod UnitRows
pub mod Wanted
pub mod ZoneCosts
pub mod ZoneSets
