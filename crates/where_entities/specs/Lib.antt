pub mod Facts
pub mod NamesGroups
pub mod Entities
