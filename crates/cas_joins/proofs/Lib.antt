pub mod Blocks
pub mod Plain
pub mod Building
pub mod Midst
pub mod Spoken
pub mod Each
pub mod Linking
