pub mod Accepted
pub mod Bodies
pub mod Lines
pub mod Read
pub mod Steps
