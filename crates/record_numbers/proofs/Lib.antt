pub mod KeyMaps
pub mod PlaceMarks
pub mod Depths
pub mod PartKeys
pub mod MarkLemmas
pub mod Fairness
pub mod ToldLemmas
