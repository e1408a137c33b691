pub mod Overview
pub mod Recalled
