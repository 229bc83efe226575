pub mod Commands
pub mod Errors
pub mod Examples
pub mod Parts
pub mod Readers
