pub mod SomeTold
pub mod TellingLemmas
