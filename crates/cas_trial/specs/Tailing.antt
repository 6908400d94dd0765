pub mod Makes
pub mod Match
