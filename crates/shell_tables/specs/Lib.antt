pub mod FaceRows
pub mod Starting
