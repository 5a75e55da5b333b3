pub mod Act
pub mod Chain
pub mod Entries
pub mod Folder
pub mod Memory
pub mod Performed
pub mod Shelf
pub mod State
