pub mod Endings
pub mod Routes
