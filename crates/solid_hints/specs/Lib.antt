pub mod AllFaults
pub mod Flags
pub mod ShellHints
pub mod Viewed
