pub mod Laws
pub mod AlikeLines
