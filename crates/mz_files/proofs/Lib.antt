mod LineLemmas
mod MissedLemmas
