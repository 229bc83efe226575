pub mod ExplainedLemmas
pub mod NodeLemmas
pub mod PlaceLemmas
pub mod WrittenLemmas
