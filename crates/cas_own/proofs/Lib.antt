mod Examples
pub mod Names
pub mod Sets
