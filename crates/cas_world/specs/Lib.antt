pub mod World
pub mod Races
pub mod Lock_flow
pub mod Owned
pub mod Turns
pub mod Sound_worlds
