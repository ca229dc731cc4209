-- What the contracts on expressions cite.
pub mod Parts
