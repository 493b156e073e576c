pub mod ExplainedLemmas
pub mod MarkedLemmas
pub mod LineLemmas
