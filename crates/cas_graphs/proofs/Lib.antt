pub mod Nodes
pub mod Shortcuts
pub mod Prices
