pub mod BlockLemmas
pub mod BufferLemmas
pub mod EscapeLemmas
pub mod PlanLemmas
pub mod PrinterLemmas
pub mod ReportLemmas
pub mod Sequences
pub mod Within
