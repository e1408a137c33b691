pub mod Opening
pub mod Verdict
pub mod Due
pub mod Laws
