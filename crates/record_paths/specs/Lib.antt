pub mod Paths
pub mod Searched
pub mod Texts
