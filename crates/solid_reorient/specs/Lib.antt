pub mod Reflagged
pub mod Fitting
pub mod Reoriented
pub mod Steps
pub mod Laws
pub mod Turned
pub mod Once
