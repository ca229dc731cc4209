-- The laws on joined texts.
pub mod Between
