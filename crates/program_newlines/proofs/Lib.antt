-- The laws on newlines.
pub mod Passing
