-- Whole EREs, and the answers of a search.
pub mod Whole
pub mod Serving
pub mod Cases
