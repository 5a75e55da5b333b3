pub mod Base
pub mod Examples
pub mod Order
pub mod Ordered
pub mod Weight
