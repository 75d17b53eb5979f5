pub mod Ring
pub mod Walk
