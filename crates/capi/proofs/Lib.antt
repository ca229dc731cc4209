-- Laws on what the C functions answer.
pub mod Copying
