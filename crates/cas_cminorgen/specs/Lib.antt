pub mod Makes
pub mod Match
pub mod Made
