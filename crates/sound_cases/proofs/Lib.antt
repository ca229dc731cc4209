-- The tables hold.
pub mod Filter
pub mod Tables
