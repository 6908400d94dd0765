pub mod Answers
pub mod Bodies
pub mod Drafts
pub mod Texts
