pub mod Answers
pub mod FollowItems
