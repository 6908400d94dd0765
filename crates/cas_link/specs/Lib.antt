pub mod Code
pub mod Image_of
pub mod Known
pub mod Map
pub mod Parts
pub mod Refusal
pub mod Rows
