pub mod Text
pub mod Shells
pub mod Due
pub mod Reading
pub mod Turned
pub mod Laws
