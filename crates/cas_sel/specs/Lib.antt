pub mod Query
pub mod Trees
pub mod Operations
pub mod Code
pub mod CminorSel
pub mod Rooms
