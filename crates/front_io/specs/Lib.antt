-- What the contracts on input and output cite.
pub mod Loading
