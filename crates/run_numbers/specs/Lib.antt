-- What the contracts on field numbers cite.
pub mod Numbers
