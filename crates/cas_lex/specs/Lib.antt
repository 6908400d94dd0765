pub mod Answers
pub mod Characters
pub mod Comments
pub mod Front
pub mod Lexed
pub mod Literals
pub mod Places
pub mod Spellings
