pub mod Answer
pub mod Texts
pub mod Due
pub mod Outcome
pub mod Replies
pub mod Ending
pub mod Numbers
