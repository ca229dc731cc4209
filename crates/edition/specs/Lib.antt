-- The definitions of document 01's sizes and outcome numbers.
pub mod Limits
pub mod Outcomes
