-- The laws on field numbers.
pub mod Numbered
