-- Laws. Sets of places of an ERE as the states of its automata: the step on a byte, and a table in which each set is
-- once.
pub mod Grown
