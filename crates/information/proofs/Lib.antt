pub mod General
pub mod Name
pub mod LookUp
pub mod Controller
