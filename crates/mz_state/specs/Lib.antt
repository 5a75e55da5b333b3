pub mod Closed
pub mod Kept
pub mod Looks
pub mod NextMove
pub mod Standing
pub mod Versions
