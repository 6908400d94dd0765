pub mod Expressions
pub mod Items
pub mod Page
pub mod Pieces
pub mod Statements
