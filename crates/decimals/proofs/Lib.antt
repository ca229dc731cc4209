-- The laws on decimal texts.
pub mod Decimals
