-- Values, and what the operations answer.
pub mod Value
pub mod Operations
pub mod Explained
