-- The laws on spans.
pub mod Spreading
pub mod Located
