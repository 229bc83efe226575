pub mod ExampleLemmas
pub mod LeafLemmas
pub mod NumeralLemmas
pub mod SettingsLemmas
pub mod WorldLemmas
