pub mod Balanced
pub mod Languages
pub mod Makes
pub mod Match
