pub mod Lines
pub mod Hints
pub mod ShellTexts
pub mod Told
pub mod Viewed
