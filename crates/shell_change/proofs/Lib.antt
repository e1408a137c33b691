pub mod Matching
pub mod Reversed
pub mod PiecesLemmas
