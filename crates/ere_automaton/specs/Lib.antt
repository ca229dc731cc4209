-- A finite automaton for the existence of a match: its words, the sets of places that its states stand for, and what
-- ties them to the table of an ERE.
pub mod Sets
pub mod Layout
pub mod Words
pub mod Automaton
pub mod Follows
pub mod Scan
