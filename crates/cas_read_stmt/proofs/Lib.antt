pub mod Steps
pub mod StmtSteps
pub mod Trees
