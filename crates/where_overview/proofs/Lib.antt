pub mod LoneShells
pub mod SameShells
pub mod AllSolids
