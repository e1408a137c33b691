pub mod TurnedSolid
pub mod ClosedSolid
pub mod WrittenText
pub mod OwnFlags
pub mod ClosedAlready
pub mod Again
