pub mod Object
pub mod Cpu
pub mod Machine
pub mod Matching
pub mod Sound
pub mod Listing
