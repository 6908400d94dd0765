pub mod Alike
pub mod Matching
pub mod Ported
pub mod Steps
pub mod Threads
