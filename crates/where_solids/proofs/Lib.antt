pub mod Judged
pub mod FirstFailing
pub mod VerdictSteps
pub mod ToldSolids
