-- The laws on numbers in bytes.
pub mod Numbers
