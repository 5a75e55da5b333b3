pub mod BestLaws
pub mod PassLaws
pub mod ScoreLaws
pub mod TotalLaws
