pub mod Answers
pub mod Joined
pub mod Schedules
pub mod Shown
pub mod Standing
pub mod World_of
