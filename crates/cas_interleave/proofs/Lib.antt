pub mod Failing
pub mod First
pub mod Going
pub mod Leading
pub mod Sharing
pub mod Telling
