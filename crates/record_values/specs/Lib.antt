pub mod Expected
pub mod Due
pub mod Begins
pub mod Told
pub mod BadValue
pub mod Naming
