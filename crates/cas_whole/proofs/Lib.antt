pub mod Bodies_found
pub mod Making
pub mod Rosters
pub mod Rows
pub mod Tables
pub mod Units
pub mod Words_of
