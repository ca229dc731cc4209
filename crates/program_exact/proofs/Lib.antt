-- Laws on the machine, the grammar and the reader.
pub mod Facts
pub mod Forms
pub mod Sentences
pub mod Meaning
pub mod Kept
pub mod Steps
pub mod Viability
pub mod Walks
pub mod Readings
pub mod Operands
pub mod Tiers
pub mod Bodies
pub mod Whole
pub mod Exactly
pub mod Sayings
