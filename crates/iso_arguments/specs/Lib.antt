pub mod RequestBounds
