-- The laws of classes and ranges.
pub mod Columns
pub mod Framed
pub mod Bounded
pub mod Reaching
