pub mod Locks
pub mod Uses
pub mod Flow
pub mod Checked
pub mod Laws
