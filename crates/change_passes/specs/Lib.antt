pub mod Passes
pub mod Alone
pub mod Closed
