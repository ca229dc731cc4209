-- What the readers of statements, of items and of programs answer.
pub mod Programs
pub mod Items
