pub mod Tariffs
pub mod Locations
