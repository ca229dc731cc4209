-- Laws of constants as words, and of EREs as tables and automata.
pub mod Decoding
pub mod Compiling
