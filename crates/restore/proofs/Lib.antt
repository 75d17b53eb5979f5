pub mod Names
pub mod Filling
pub mod Controllers
pub mod Loading
pub mod Accepting
