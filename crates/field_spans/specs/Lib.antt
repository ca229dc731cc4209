-- What the contracts on spans cite.
pub mod Spread
