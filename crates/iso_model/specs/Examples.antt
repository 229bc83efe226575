-- Example scripts as values, by topic. What each comes to is stated, and proved, in the source
-- module `examples`.
pub mod Words
pub mod Resources
pub mod Lifecycles
pub mod Names
pub mod Bodies
