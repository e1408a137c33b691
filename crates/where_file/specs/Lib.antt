pub mod LineFacts
pub mod Looks
pub mod BadFile
