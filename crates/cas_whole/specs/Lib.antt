pub mod Bodies
pub mod Names
pub mod Program_of
pub mod Whole
