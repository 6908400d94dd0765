pub mod Portable
pub mod Renaming
