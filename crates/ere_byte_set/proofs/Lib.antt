-- The laws on sets of bytes.
pub mod Laws
