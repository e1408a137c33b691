pub mod Named
pub mod Loose
pub mod Counts
pub mod Lines
pub mod Hints
pub mod Unjudged
pub mod KindHints
pub mod Listed
