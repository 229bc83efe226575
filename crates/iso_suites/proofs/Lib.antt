pub mod AloneRuns
pub mod BodyEnds
pub mod Headline
pub mod HistoryLeaves
pub mod LanguageLaws
pub mod PlanChains
pub mod PlanOpenings
pub mod Progressing
mod SelectedRuns
pub mod StateRuns
pub mod SuiteLaws
