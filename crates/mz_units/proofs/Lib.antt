pub mod NamedLemmas
pub mod UnitLemmas
pub mod ZoneSetLemmas
pub mod LockLemmas
pub mod TermLemmas
