-- Laws on statements, items and programs.
pub mod Patterns
pub mod Items
pub mod Whole
