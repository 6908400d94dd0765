pub mod Buffers
pub mod Asking
pub mod Going
pub mod Keeping
pub mod Machines
pub mod Rounding
pub mod Framing
pub mod Tallying
