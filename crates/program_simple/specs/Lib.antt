-- What the contracts on statements cite.
pub mod Statements
