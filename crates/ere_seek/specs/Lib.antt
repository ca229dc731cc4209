-- What the parts of a search for the leftmost longest match ask and give.
pub mod Starts
pub mod One
pub mod Pending
pub mod Seeking
