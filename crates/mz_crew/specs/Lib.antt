pub mod Ahead
pub mod Crew
pub mod Works
