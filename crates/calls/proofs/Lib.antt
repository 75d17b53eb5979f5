pub mod Plugs
pub mod Reading
