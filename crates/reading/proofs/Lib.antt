pub mod OneTable
pub mod Walks
pub mod Judging
pub mod Steps
