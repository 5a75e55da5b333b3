pub mod AcceptedLemmas
pub mod FileLemmas
mod FolderLemmas
pub mod KeyLaws
pub mod ReadLemmas
pub mod ValueLemmas
