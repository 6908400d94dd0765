pub mod Liveness
pub mod Allocation
pub mod Usable
pub mod Match
