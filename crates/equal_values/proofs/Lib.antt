pub mod Zeros
pub mod Scales
pub mod Texts
pub mod Pieces
pub mod Powers
pub mod Parts
pub mod Marks
