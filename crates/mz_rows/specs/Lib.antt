pub mod Answer
pub mod ByZone
pub mod Columns
pub mod Keyed
pub mod Pairs
pub mod Rows
pub mod Runs
