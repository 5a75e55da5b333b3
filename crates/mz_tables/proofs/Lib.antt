pub mod PositionLemmas
pub mod RecordLemmas
pub mod LeftLemmas
pub mod CellLemmas
pub mod RowLemmas
