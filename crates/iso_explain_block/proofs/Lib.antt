pub mod FewLemmas
pub mod KeptLemmas
pub mod MessageLemmas
