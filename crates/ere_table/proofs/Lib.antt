-- The laws of the table.
pub mod Begins
pub mod Parts
pub mod RowParts
pub mod Rows
pub mod Sets
pub mod Tables
pub mod Writes
