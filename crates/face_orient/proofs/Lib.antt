pub mod HeadLists
pub mod FlagWalks
pub mod Climbs
