pub mod Bearing
pub mod SearchSteps
pub mod Same
pub mod Layouts
pub mod TupleNames
pub mod PlaceSteps
