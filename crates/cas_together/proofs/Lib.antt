pub mod Counting
pub mod Cutting
pub mod Families
pub mod Gathering
pub mod Holding
pub mod Kinding
pub mod Ordering
