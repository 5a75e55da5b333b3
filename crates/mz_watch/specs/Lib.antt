pub mod LeastSeen
pub mod Notes
pub mod Tally
pub mod Watcher
