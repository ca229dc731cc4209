-- The bytes of a token: words, digits, operators by their spelling, and where a string or an ERE closes.
pub mod Spellings
pub mod Closings
