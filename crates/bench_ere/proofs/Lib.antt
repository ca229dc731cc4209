-- Laws on the C functions over a compiled ERE.
pub mod Answers
