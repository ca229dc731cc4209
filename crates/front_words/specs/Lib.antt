-- What the contracts on words cite.
pub mod Words
pub mod Walk
