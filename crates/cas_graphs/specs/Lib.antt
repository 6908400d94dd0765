pub mod Successors
pub mod Shortcut
pub mod Match
