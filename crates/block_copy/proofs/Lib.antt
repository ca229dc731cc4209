-- The laws on copies by blocks.
pub mod Copied
