-- The laws on simple statements and conditions.
pub mod Answers
pub mod Jumps
pub mod Choosing
pub mod Printing
