pub mod Best
pub mod Sums
