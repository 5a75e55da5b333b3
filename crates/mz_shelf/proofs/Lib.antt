pub mod ChainLemmas
pub mod CountLemmas
mod EntryLemmas
mod FolderLemmas
mod KnownBytesLemmas
mod MemoryLemmas
pub mod PerformedLemmas
