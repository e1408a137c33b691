pub mod Lines
pub mod Join
pub mod Pair
pub mod Reach
pub mod Link
pub mod Apart
pub mod Viewed
