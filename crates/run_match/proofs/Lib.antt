-- The laws on matches.
pub mod Marked
