pub mod Computing
pub mod PlainLemmas
pub mod ShellLemmas
pub mod ShownLemmas
pub mod SourceLemmas
pub mod SummaryLemmas
pub mod UnseenLemmas
