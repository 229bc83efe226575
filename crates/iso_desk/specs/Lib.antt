pub mod Crews
pub mod Lines
pub mod Linked
pub mod Marking
pub mod Offers
pub mod Places
