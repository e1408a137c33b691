pub mod Folds
pub mod Draft
pub mod Faces
pub mod Changing
pub mod Emptied
pub mod Changed
pub mod Staying
