pub mod Refusing
pub mod Following
pub mod Endings
