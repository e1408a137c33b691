pub mod Line
pub mod Opening
pub mod Parsed
pub mod Written
pub mod Cutting
