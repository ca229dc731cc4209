-- The laws on pieces.
pub mod Grouping
