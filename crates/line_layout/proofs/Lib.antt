pub mod Cutting
pub mod Right
pub mod GoodLines
pub mod Looping
pub mod Joined
pub mod Shuffled
