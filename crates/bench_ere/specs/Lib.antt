-- What the C functions over a compiled ERE answer.
pub mod Answer
