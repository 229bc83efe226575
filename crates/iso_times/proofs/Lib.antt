pub mod FirstBegins
pub mod Sharing
pub mod Places
