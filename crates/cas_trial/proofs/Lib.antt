pub mod Fits
pub mod Pacing
pub mod Received
pub mod Whole
pub mod Wrong
