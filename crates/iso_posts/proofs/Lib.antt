pub mod Keeping
pub mod Seating
pub mod Sharing
