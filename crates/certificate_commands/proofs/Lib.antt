mod BookParts
mod BookReads
mod BookSteps
mod CutText
mod FirstLines
pub mod Judged
mod PartsRead
mod Readings
mod VerifyAnswers
pub mod One
pub mod SomeDue
pub mod Verdicts
pub mod AcceptedOwed
