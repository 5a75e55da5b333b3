pub mod Improved
