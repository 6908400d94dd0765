pub mod Bad_steps
pub mod Checked_modules
pub mod First_threads
pub mod Rounds_lemmas
pub mod Stands_at
pub mod Worlds
