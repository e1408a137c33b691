pub mod FailingLemmas
pub mod TakenLemmas
