-- The levels that the tokens of a program open, and what is claimed of the reader.
pub mod Levels
pub mod Claims
