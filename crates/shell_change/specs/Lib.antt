pub mod Matching
pub mod Tracks
pub mod Seams
pub mod Moves
pub mod UseFits
pub mod Fits
pub mod Pieces
