-- What the contracts on numbers in bytes cite.
pub mod Words
