pub mod Closed
pub mod ShellObligations
pub mod Naming
pub mod Faults
