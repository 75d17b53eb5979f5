pub mod General
pub mod Controller
pub mod LookUp
