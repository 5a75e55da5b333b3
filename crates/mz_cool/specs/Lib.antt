pub mod Acceptance
pub mod Adaptive
pub mod Level
pub mod Schedule
pub mod Starts
pub mod Table
