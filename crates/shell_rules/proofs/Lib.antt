pub mod ClosedLemmas
pub mod Decided
pub mod Placed
pub mod Rules
pub mod OneShell
pub mod Shells
pub mod CheckedShell
pub mod Few
