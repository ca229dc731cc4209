-- Numbers and their arithmetic, as document 01 has them.
pub mod Range
pub mod Arithmetic
pub mod Answers
