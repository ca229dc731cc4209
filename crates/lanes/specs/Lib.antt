-- What the contracts on blocks of bytes, on the lanes of a word and on pairs of bytes cite.
pub mod Block
pub mod Marks
pub mod Pair
