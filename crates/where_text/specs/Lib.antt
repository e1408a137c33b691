pub mod Spelled
pub mod Types
pub mod TypeTable
pub mod Places
pub mod Sentences
pub mod Listing
