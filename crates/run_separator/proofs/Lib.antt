-- The laws on the separator.
pub mod Got
