pub mod RangeLemmas
pub mod RaceLists
