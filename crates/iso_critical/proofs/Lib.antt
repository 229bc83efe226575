pub mod HolderLemmas
pub mod LawLemmas
pub mod MarkLemmas
pub mod OrderLemmas
pub mod WalkLemmas
