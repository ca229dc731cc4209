-- The laws on what an index reaches.
pub mod Reaching
