pub mod EndingLemmas
pub mod NumberLemmas
