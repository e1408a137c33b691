pub mod Names
pub mod Pieces
pub mod Filled
pub mod Reading
pub mod Numbered
pub mod Gathered
pub mod OneName
pub mod Named
