pub mod FewLemmas
pub mod ListingLemmas
pub mod SafeLemmas
pub mod UnknownLemmas
