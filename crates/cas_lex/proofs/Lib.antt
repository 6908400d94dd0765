pub mod Answers
pub mod Comments
pub mod Literals
pub mod Longest
pub mod Names
pub mod Once
mod Rows
pub mod Spellings
pub mod Total
pub mod Within
