-- The laws of a search for the leftmost longest match.
pub mod Bareness
pub mod Following
pub mod Waiting
pub mod Leftmost
