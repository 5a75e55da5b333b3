pub mod FeatureLemmas
pub mod ZoneTargetLemmas
pub mod SumLemmas
pub mod AmountLemmas
