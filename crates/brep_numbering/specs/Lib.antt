pub mod Keys
pub mod Numbered
pub mod Slots
pub mod Keyed
pub mod Marked
pub mod Placed
