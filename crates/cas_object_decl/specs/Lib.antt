pub mod Chain
pub mod Data
pub mod Fields
pub mod Heads
pub mod Lines
pub mod Types
