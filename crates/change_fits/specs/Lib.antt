pub mod NewNames
pub mod Fits
