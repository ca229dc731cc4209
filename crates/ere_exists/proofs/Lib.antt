-- The laws of the walk.
pub mod Anywhere
pub mod Passing
