pub mod Failing
pub mod Mended
