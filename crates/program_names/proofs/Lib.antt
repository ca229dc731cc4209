-- Laws on the users' names of a filter text.
pub mod Walks
pub mod Expressions
pub mod Statements
pub mod Programs
pub mod Order
