pub mod Agreeing
pub mod Interleaving
