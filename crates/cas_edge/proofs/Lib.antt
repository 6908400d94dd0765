pub mod Laid_out
pub mod Settled
