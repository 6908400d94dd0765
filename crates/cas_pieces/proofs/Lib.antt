pub mod Cutting
pub mod Numerals
pub mod Spelling
pub mod Tables
pub mod Words
