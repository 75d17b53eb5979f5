pub mod Decisions
pub mod Effects
