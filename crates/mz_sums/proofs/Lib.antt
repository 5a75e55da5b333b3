pub mod BestLemmas
pub mod SumLemmas
