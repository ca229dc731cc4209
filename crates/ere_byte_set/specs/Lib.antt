-- What the contracts on sets of bytes cite.
pub mod Words
