pub mod EdgeRows
pub mod Placed
pub mod PartSteps
pub mod LowSteps
pub mod AtPlaces
pub mod FaceSteps
pub mod UpTo
pub mod TurnSteps
