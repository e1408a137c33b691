pub mod Asked
pub mod Due
pub mod Owed
pub mod Laws
