-- The laws on operands and operators.
pub mod Readings
pub mod Written
pub mod Suffixes
pub mod Names
pub mod Primaries
pub mod Matching
pub mod Tiers
pub mod Operators
pub mod Turns
