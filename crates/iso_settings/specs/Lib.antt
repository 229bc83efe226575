pub mod Examples
pub mod Leaves
pub mod Readings
pub mod Settings
pub mod Starts
pub mod Worlds
