pub mod Lists
mod Places
mod ShortFronts
pub mod InLines
pub mod Ended
pub mod Tests
pub mod Answers
pub mod Spaces
pub mod EndTrim
pub mod DigitFronts
pub mod Eight
pub mod Columns
pub mod Spaced
pub mod EightDigits
pub mod FrontDigits
pub mod Mantissas
pub mod Signed
