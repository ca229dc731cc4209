-- The meaning of the reader and the writer, and of a pass.
pub mod Pass
pub mod Copy
