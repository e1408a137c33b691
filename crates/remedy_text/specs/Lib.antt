pub mod Sentences
pub mod Told
pub mod Bodies
pub mod Lines
pub mod Steps
pub mod Remedies
pub mod Viewed
