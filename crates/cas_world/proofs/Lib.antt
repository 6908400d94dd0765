mod Counts
mod Effects
mod Examples
mod Sound_worlds
mod Holding
mod Joined
mod Moving
mod Named
mod Races
mod Standing
mod Staying
pub mod Turns
mod Lock_flow
