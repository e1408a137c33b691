pub mod Certified
pub mod Mating
pub mod EdgeFaults
pub mod FanParts
pub mod BorderParts
pub mod Listed
