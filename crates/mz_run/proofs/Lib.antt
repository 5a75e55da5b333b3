mod AnnealLemmas
mod ClosingLemmas
mod CountLemmas
mod EndingLemmas
mod PreparedLemmas
mod RunLemmas
mod WatchingLemmas
mod WorkLemmas
