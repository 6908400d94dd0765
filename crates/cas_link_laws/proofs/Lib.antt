pub mod Cells
pub mod Fitting
pub mod Images
pub mod Locks
pub mod Placed
pub mod Standing
