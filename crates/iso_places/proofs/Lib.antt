pub mod CountLemmas
pub mod Entries
pub mod FirstLemmas
pub mod LineLemmas
pub mod StartLemmas
pub mod PathLemmas
pub mod SiteLemmas
