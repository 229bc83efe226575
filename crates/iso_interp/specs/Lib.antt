pub mod Blocks
pub mod Runs
pub mod Values
