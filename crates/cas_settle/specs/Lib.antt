pub mod Count
pub mod Located
pub mod Refusal
pub mod Roster
pub mod Settle
