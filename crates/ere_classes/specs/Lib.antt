-- What an automaton has of its bytes: the class of each, by the places that take it, and the ranges of a match's
-- first two bytes.
pub mod Frames
pub mod Column
pub mod Bounds
pub mod Reach
