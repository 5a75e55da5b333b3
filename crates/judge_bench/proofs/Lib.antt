pub mod RegionLaws
pub mod RowLaws
