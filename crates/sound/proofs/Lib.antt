-- The claim holds.
pub mod Whole
