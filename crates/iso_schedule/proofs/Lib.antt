pub mod Fronts
pub mod LineLemmas
pub mod Numerals
pub mod ReadSoFar
pub mod Readings
pub mod Unique
pub mod WrittenLines
