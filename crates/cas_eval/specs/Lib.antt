pub mod Answer
pub mod Arguments
pub mod Cells
