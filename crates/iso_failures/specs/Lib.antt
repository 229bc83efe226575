pub mod BlockedInside
pub mod Blocking
pub mod Counting
pub mod CountingSteps
pub mod Examples
pub mod Failures
pub mod Nodes
