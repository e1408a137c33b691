pub mod Breaks
pub mod Lying
