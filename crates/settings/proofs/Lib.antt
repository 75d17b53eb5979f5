pub mod Turns
pub mod Bridge
pub mod Reporting
