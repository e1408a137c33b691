pub mod Accepted
pub mod Laws
pub mod Book
pub mod BookLaws
pub mod Small
