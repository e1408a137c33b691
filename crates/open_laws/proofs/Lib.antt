pub mod Renumbers
pub mod ClosedSolids
mod LineLists
mod SameParts
mod SameLines
mod Differ
