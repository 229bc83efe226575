pub mod Examples
pub mod FaultNames
pub mod Lines
pub mod Parts
pub mod Scan
pub mod Schedules
