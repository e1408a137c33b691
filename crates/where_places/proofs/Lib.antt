pub mod Counting
pub mod FieldNumbers
pub mod Pairs
pub mod Put
pub mod PlacedFiles
pub mod OnePlacedFile
mod Items
mod Standing
