pub mod Lists
pub mod Tariffs
