-- The table of codes, as numbers, and that of the special variables.
pub mod Rows
pub mod Sources
