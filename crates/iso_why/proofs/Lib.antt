pub mod GiverLemmas
pub mod ModeReasons
pub mod ReachLemmas
pub mod ReasonLemmas
