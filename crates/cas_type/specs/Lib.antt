pub mod Answer
pub mod Parts
pub mod Rows
pub mod View
pub mod Whole_walk
