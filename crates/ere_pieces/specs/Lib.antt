-- What the contracts on pieces cite.
pub mod State
