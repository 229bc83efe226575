pub mod OpenedTrays
pub mod Walks
