pub mod Alike_forms
pub mod Basics
pub mod Bodied
pub mod Complete
pub mod Defined
mod Examples
pub mod Expressions
pub mod Filled
pub mod Formed_exprs
pub mod Formed_items
pub mod Formed_stmts
pub mod Items
pub mod Kept_words
pub mod Later
pub mod Later_rows
pub mod Modules
pub mod Sorted
pub mod Sorted_scopes
pub mod Statements
pub mod Token_words
pub mod Typed_once
pub mod Typed_statements
mod Types_table
