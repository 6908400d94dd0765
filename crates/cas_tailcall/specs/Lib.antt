pub mod Tailcall
pub mod Match
pub mod Made
