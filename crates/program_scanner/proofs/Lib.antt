-- Laws. The bytes of a token: words, digits, operators by their spelling, and where a string or an ERE closes.
pub mod Runs
pub mod Closing
pub mod Spelling
