pub mod Skipping
pub mod Pieces
pub mod Controllers
pub mod Writing
