pub mod Units
pub mod Decomposes
pub mod Composes
