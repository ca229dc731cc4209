-- The laws on payloads and tallies.
pub mod Bytes
pub mod Counting
