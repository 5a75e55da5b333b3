pub mod Seen
pub mod Chair
pub mod Views
pub mod Invariant
pub mod Steps
pub mod Places
pub mod Turn
pub mod Gathering
