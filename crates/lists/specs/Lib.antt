-- What several crates need of lists, of parsers and of words.
pub mod Parsing
pub mod Elements
pub mod Digit
pub mod Answers
