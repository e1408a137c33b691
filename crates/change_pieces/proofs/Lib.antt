pub mod Steps
pub mod Appearing
pub mod Compared
pub mod GatherSteps
pub mod Flat
pub mod Numbered
