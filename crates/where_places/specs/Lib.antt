pub mod FileLine
pub mod Places
pub mod PlaceLines
pub mod PlacedFiles
pub mod ItemEnds
pub mod Spans
