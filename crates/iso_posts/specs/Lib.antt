pub mod Accounts
pub mod Rules
pub mod Seats
