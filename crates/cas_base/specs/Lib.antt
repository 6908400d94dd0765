pub mod Decl
pub mod Kind
pub mod Name
pub mod Names
pub mod Print
pub mod Ty
pub mod Unit
pub mod Word
