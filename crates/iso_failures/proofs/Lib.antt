pub mod AddingUp
pub mod BlockedLemmas
pub mod CountLemmas
pub mod KeepLemmas
pub mod OkLemmas
pub mod RunOutcomes
pub mod Sums
pub mod TextLemmas
