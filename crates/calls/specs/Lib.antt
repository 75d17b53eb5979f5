pub mod Given
pub mod Ticks
