-- What the contracts on matches cite.
pub mod Marks
