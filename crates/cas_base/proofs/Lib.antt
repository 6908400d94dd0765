pub mod KindLaws
mod NameRows
pub mod NameTables
pub mod TyLemmas
pub mod WordLaws
