-- Laws on the translation of a text.
pub mod Agreeing
pub mod Texts
pub mod Spelled
pub mod Whole
pub mod Answers
