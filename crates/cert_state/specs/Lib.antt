pub mod Progress
pub mod CheckState
pub mod Matching
pub mod Ring
pub mod Places
pub mod Uses
pub mod Tallied
