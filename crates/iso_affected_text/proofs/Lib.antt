pub mod ChangeLemmas
pub mod MeaningLemmas
pub mod PlaceLemmas
pub mod RowLemmas
