pub mod Instructions
pub mod Objects
pub mod Operands
pub mod Page
pub mod Words
