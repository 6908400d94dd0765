pub mod Declared
pub mod Texts
