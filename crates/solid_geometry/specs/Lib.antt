pub mod Curves
pub mod Known
pub mod Lines
