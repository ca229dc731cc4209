-- How the lexer's answers stand for tokens.
pub mod Coded
