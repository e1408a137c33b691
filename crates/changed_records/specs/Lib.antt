pub mod Values
pub mod Items
pub mod Loops
pub mod Lists
pub mod Shells
