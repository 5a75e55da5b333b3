pub mod HistoryLaws
pub mod LegalHistoryLaws
pub mod OvertakenLaws
pub mod OvertakingLemmas
pub mod ReplayLemmas
pub mod StartLemmas
pub mod WorldLemmas
