-- EREs as trees, the spans that each has in a text, and the best of them.
pub mod Tree
pub mod Meaning
pub mod Search
