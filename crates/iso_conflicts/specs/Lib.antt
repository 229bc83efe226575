pub mod Chains
pub mod ConflictsText
pub mod Examples
pub mod Takers
