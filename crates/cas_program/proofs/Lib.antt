pub mod Agreeing
pub mod Agreement
mod Entering
mod Examples
mod Laid_out
pub mod Locking
pub mod Meanings
mod Placed
mod Starting
mod Environments
mod Valued
