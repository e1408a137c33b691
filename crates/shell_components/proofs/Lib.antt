pub mod Joined
pub mod Counting
pub mod GroupSteps
pub mod RisenLists
pub mod RankSteps
