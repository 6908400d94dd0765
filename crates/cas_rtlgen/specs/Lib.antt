pub mod Makes
pub mod Match
pub mod Making
pub mod Drafts
pub mod Made
