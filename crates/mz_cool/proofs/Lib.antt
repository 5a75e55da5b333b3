pub mod AcceptanceLemmas
pub mod AdaptiveLemmas
pub mod LevelLemmas
pub mod ScheduleLemmas
pub mod StepLemmas
pub mod TableLemmas
