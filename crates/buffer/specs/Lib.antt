-- What the contracts on bytes cite.
pub mod Parts
pub mod Order
pub mod First
