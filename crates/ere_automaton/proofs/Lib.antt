-- The laws of a search by an automaton.
pub mod Joins
pub mod Absorbing
pub mod Everywhere
pub mod Ranging
pub mod Skips
pub mod States
pub mod Spent
pub mod Left
pub mod Spelling
