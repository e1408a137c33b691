pub mod LineSteps
pub mod ShellSteps
pub mod WholeText
pub mod OneOwed
pub mod Turning
pub mod OrientDecided
pub mod SomeOwed
pub mod Owing
