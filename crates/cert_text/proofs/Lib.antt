pub mod Spacing
pub mod Digits
