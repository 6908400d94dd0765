pub mod Comparing
pub mod Dividing
pub mod Resolving
pub mod Wording
