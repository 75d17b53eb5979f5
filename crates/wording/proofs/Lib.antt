pub mod Writing
pub mod Names
pub mod Order
pub mod Digits
