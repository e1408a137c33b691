pub mod FaceHeads
pub mod StartCounts
pub mod StartCells
