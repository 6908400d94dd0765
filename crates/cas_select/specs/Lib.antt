pub mod Operators
pub mod Addresses
pub mod Conditions
pub mod Makes
pub mod Match
pub mod Made
