pub mod Bodies
pub mod Critical
pub mod Examples
pub mod Needs
pub mod Orders
pub mod Paths
