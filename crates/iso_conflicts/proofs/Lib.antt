pub mod LineLemmas
pub mod LongestLemmas
pub mod RangeLemmas
pub mod TakerLemmas
pub mod TestLemmas
