pub mod Assertions
pub mod Blocks
pub mod Chains
pub mod Completion
pub mod Forms
pub mod Stack
