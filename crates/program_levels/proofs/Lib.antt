-- Laws on levels: a count of them beside the tokens, the grammar, the machine and the reader.
pub mod Count
pub mod Derivations
pub mod Sentences
pub mod Beside
pub mod Steps
pub mod Expressions
pub mod Statements
pub mod Programs
pub mod Exactly
pub mod Examples
