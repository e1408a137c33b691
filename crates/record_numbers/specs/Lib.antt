pub mod EqualRecords
pub mod Parts
pub mod Keys
pub mod Marked
