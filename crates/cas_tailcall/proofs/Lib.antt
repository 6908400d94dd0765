pub mod Making
pub mod Together
pub mod Passing
pub mod Simulation
pub mod Functions
