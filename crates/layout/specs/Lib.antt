pub mod Places
pub mod Advertising
