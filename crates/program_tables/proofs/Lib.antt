-- Laws on tables.
pub mod Values
pub mod Entries
