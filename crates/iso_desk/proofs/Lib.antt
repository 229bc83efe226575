pub mod AwaitingLemmas
pub mod BitLemmas
pub mod CrewLemmas
pub mod LineEndsLemmas
pub mod LineLemmas
pub mod OfferLemmas
pub mod TableLemmas
