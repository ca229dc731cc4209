-- Laws of the instruction set.
pub mod Below
pub mod Naming
pub mod Bytes
pub mod Assigning
pub mod Counting
