pub mod Choice
pub mod Suiting
pub mod Turned
pub mod Laws
