pub mod Capped
pub mod Chains
