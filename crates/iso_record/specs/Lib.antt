pub mod Recordings
pub mod SerialRuns
pub mod SerialWalks
pub mod Texts
