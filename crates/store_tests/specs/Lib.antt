pub mod Bare
pub mod Caller
pub mod Proposals
