-- Laws. The leftmost longest match of an ERE in a text, by walking its table.
pub mod Answers
pub mod Finds
pub mod Meets
pub mod Skips
pub mod Steps
pub mod Trailing
pub mod Walks
