pub mod Ends
pub mod Examples
pub mod LineStarts
pub mod Located
pub mod Sites
pub mod SourceLines
