pub mod GivenWords
pub mod Outcomes
pub mod OneFaults
pub mod OneAnswer
pub mod Laws
