pub mod Holder
pub mod Threads
pub mod Turns
