pub mod Heads
pub mod FlagWalk
pub mod Paths
pub mod Steady
