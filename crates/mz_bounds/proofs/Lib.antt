pub mod BoundLemmas
pub mod FitLemmas
pub mod OuterLemmas
pub mod ZoneBoundLemmas
