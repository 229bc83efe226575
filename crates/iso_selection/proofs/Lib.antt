pub mod LineLemmas
pub mod MatchLemmas
pub mod NamedLemmas
pub mod NodeLemmas
pub mod PickLemmas
pub mod PlanLemmas
pub mod ShardLemmas
pub mod TurnLemmas
