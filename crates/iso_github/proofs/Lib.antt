pub mod ErrorLemmas
pub mod ReaderLemmas
