pub mod Cores
pub mod EventRuns
pub mod FlatMaps
pub mod Isolation
pub mod Progress
