pub mod OpenedLines
pub mod Shells
pub mod Joining
pub mod Judged
pub mod AcceptedFor
pub mod Owing
pub mod One
pub mod SomeDue
