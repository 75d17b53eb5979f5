pub mod Blocks
pub mod Tables
pub mod Open
pub mod Settings
pub mod Advertising
pub mod Present
pub mod Waiting
