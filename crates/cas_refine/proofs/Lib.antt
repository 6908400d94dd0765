pub mod Stacks
pub mod Landing
pub mod Inside
pub mod Outside
pub mod Whole
pub mod Returning
pub mod Opening
pub mod Tables
pub mod Runs
mod Room
