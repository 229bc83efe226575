pub mod FewLemmas
pub mod LargestLemmas
pub mod LineLemmas
pub mod PathLemmas
pub mod ReadLemmas
pub mod ScheduleLemmas
pub mod SizeLemmas
