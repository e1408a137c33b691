pub mod Components
pub mod Trees
pub mod Groups
pub mod Ranks
pub mod FaceUses
