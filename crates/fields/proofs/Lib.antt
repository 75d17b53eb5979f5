pub mod Places
pub mod Says
pub mod Reach
pub mod Checks
pub mod FixedPart
