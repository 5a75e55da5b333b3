pub mod Bounds
pub mod Features
pub mod Files
pub mod Made
pub mod Parameters
pub mod Sets
pub mod Units
pub mod Words
