pub mod ListSteps
pub mod RecordValues
pub mod PointPairs
pub mod CurveLemmas
