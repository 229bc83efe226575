pub mod LeaveLemmas
pub mod NodeLemmas
pub mod OpeningLemmas
pub mod ReadyLemmas
pub mod ResultLemmas
pub mod StepLemmas
pub mod TrayLemmas
pub mod VaultLemmas
