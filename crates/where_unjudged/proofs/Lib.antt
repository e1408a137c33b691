pub mod Marks
pub mod Counted
pub mod Entities
pub mod Told
pub mod Numbers
