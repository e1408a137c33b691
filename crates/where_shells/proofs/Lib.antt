pub mod Steps
pub mod ItemSteps
pub mod Paragraphs
pub mod ReachSteps
pub mod SharedBelow
