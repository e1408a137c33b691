pub mod Turned
pub mod Renumbered
