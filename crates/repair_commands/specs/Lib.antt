pub mod Request
pub mod Texts
pub mod SolidDue
pub mod Due
pub mod Owed
pub mod SolidLaws
pub mod Laws
