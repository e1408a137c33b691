pub mod Replying
pub mod Feeds
pub mod Taken
pub mod One
pub mod SomeDue
pub mod Verdicts
pub mod Owing
pub mod Endings
mod ShortNumbers
