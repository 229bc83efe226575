pub mod ExampleRuns
pub mod PlanSuites
pub mod ScriptLanguage
pub mod Selected
pub mod SuiteStates
