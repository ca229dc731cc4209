-- Laws of the operations.
pub mod Decoded
pub mod Assigning
