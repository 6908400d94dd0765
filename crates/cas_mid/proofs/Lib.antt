pub mod Tariffs
pub mod Lists
pub mod Translating
