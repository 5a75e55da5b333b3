pub mod Fields
pub mod Missed
pub mod Missing
pub mod Solution
pub mod Summary
pub mod Summed
pub mod Turns
