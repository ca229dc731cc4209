-- The leftmost longest match of an ERE in a text, by walking its table.
pub mod Walk
pub mod Find
