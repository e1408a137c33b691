pub mod Used
pub mod Dropped
pub mod Compacted
pub mod Faults
pub mod Laws
pub mod Marking
pub mod Rows
