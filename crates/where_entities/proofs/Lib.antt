pub mod Marked
pub mod NamesGiven
