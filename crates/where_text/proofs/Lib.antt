pub mod Steps
pub mod NamedTypes
pub mod Coordinates
