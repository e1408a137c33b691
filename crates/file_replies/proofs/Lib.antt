pub mod WrittenFiles
pub mod ExtractionDecided
