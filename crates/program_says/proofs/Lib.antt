-- The reader of statements, items and programs, beside what derivations say.
pub mod Nearest
pub mod Stretches
pub mod Openings
pub mod Parts
pub mod Blocks
pub mod AnyLevels
pub mod Items
pub mod Exactly
