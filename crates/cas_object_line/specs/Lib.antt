pub mod Answers
pub mod Codes
pub mod Groups
pub mod Instructions
pub mod Numbers
pub mod Operands
pub mod Tables
