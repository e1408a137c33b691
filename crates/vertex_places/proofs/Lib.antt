pub mod FirstPlaces
pub mod Coordinates
