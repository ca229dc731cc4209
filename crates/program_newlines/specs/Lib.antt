-- What the contracts on newlines cite.
pub mod Passing
