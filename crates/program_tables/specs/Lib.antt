-- What the words of a program name, in tables.
pub mod Texts
pub mod Tables
