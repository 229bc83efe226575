pub mod Examples
pub mod Measures
pub mod Parts
pub mod Shares
pub mod StatsText
pub mod Times
