-- What the contracts on test cases cite.
pub mod Payload
pub mod Tally
