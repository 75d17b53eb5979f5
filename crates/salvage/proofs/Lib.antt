pub mod Dropped
pub mod Distance
pub mod Listed
pub mod Kept
pub mod Examples
pub mod Theorems
