pub mod FlagsDecided
pub mod NeverDone
pub mod GivenWords
pub mod SameBytes
pub mod OwedRows
pub mod Outcomes
pub mod OneAnswer
