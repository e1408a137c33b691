pub mod Closed
pub mod Written
pub mod Stays
