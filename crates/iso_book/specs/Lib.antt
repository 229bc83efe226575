pub mod Books
pub mod Turns
pub mod Leaves
pub mod Holdings
pub mod Progress
