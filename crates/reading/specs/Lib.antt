pub mod Comes
pub mod Contents
