pub mod HistoryLemmas
pub mod LayerLemmas
pub mod MomentLemmas
pub mod PlaceLemmas
pub mod Sharing
