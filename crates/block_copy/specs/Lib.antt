-- What the contracts on copies cite.
pub mod Rounded
