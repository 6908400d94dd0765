pub mod Graph
pub mod Rtl
pub mod Code
pub mod Rooms
