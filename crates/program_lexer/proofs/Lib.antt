-- Laws on the lexer's runs of bytes, its searches for closing bytes, and its table of spellings.
pub mod Coding
