pub mod Pairs
pub mod Records
pub mod Lists
