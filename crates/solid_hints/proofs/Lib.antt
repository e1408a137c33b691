pub mod Gathered
pub mod Counts
pub mod ToldHints
