-- Laws on words, on classes, and on reading a bracket.
pub mod Turns
pub mod Steps
pub mod Answers
