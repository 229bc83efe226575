pub mod Histories
pub mod Layers
pub mod Places
pub mod Values
