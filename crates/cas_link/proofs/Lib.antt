pub mod Finding
pub mod Lengths
pub mod Naming
pub mod Order
pub mod Resolving
pub mod Rosters
