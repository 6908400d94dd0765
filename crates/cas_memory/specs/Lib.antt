pub mod Blocks
pub mod Entities
pub mod Spans
pub mod Values
