pub mod Going
pub mod EntryValues
pub mod Names
pub mod Curves
pub mod BadValues
pub mod Accepts
pub mod Misfits
