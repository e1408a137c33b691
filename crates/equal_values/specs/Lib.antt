pub mod Spelled
pub mod Equal
pub mod Canonical
pub mod Keys
pub mod Laws
