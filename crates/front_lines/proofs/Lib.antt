-- The laws on what is put.
pub mod Columns
pub mod Putting
