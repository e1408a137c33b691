pub mod Listed
pub mod Walks
pub mod Told
pub mod Leasts
pub mod Found
