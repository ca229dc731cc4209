-- Laws on the readers of expressions.
pub mod Assignments
pub mod Calls
