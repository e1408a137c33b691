pub mod Cutting
pub mod SolidSteps
