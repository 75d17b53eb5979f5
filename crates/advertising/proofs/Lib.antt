pub mod Refusals
pub mod Adding
pub mod Removing
pub mod Telling
