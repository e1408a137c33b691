pub mod OneMending
pub mod StateLemmas
pub mod WritableEntries
mod GeometryKept
