pub mod Laws
pub mod Addresses
pub mod Ties
pub mod Answers
