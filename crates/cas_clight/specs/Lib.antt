pub mod Clight
pub mod Units
