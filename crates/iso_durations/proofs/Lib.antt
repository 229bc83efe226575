pub mod EntryLemmas
pub mod ListLemmas
pub mod OrderLemmas
pub mod SortLemmas
pub mod TimesLemmas
