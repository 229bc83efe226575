pub mod Examples
pub mod Lent
pub mod Parts
pub mod Replays
