-- Automata from the table of an ERE: the sets that their states stand for, rows, and pairs.
pub mod Layout
pub mod Both
pub mod Derived
