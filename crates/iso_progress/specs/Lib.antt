pub mod ProgressLaws
pub mod Candidates
pub mod NeverStuck
pub mod Examples
