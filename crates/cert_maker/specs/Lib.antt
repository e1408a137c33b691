pub mod Book
pub mod Certified
pub mod Along
pub mod BookLaws
pub mod Soundness
