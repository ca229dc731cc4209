-- What the reader of filter texts answers, and what the words that it writes say.
pub mod Tables
pub mod Meaning
pub mod Reading
