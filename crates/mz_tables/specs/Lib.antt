pub mod Cells
pub mod Delimiter
pub mod Header
pub mod Ids
pub mod Missing
pub mod Reading
pub mod Table
pub mod Wants
