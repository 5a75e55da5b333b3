pub mod AddedLaws
pub mod AddedPairLemmas
pub mod AnswerLemmas
pub mod RowLemmas
pub mod IdLemmas
pub mod KeyedLemmas
mod ByZoneLemmas
pub mod PairLemmas
pub mod PairListLemmas
mod RunLemmas
