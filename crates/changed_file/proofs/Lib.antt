pub mod EntrySteps
pub mod Stays
