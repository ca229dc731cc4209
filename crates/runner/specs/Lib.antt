-- A run from bytes, and what the runner's functions promise.
pub mod Report
