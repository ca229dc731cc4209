-- The laws of an automaton that is made from a table.
pub mod Composed
pub mod Heads
pub mod Following
pub mod Driving
pub mod Seeking
