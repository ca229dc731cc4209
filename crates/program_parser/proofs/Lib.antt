-- Laws on the tables of the reader, on its tokens, and on the words that it writes.
pub mod Sets
pub mod Tokens
pub mod Places
pub mod Codes
pub mod Others
pub mod Spelling
