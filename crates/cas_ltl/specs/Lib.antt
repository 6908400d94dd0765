pub mod Locations
pub mod Ltl
pub mod Code
