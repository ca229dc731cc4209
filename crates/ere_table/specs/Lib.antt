-- The table of an ERE: what may come next after a place, what is in the table, how it is built, and whose it is.
pub mod Nexts
pub mod Table
pub mod Build
pub mod Wiring
