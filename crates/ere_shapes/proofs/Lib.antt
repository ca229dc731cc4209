-- The laws of words as they are found and stored.
pub mod Ranges
pub mod Spelling
