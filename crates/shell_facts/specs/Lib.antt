pub mod FanFacts
pub mod VertexFaces
pub mod FaceTable
pub mod RowPlaces
pub mod PartFacts
pub mod PartTables
