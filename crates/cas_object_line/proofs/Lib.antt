pub mod Capped
pub mod Rows
