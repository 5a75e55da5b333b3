pub mod BaseLemmas
pub mod OrderLemmas
pub mod PlaceLemmas
pub mod SumLemmas
pub mod TakenLemmas
