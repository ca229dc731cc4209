-- Document 01's cases and rules as tables.
pub mod Text
pub mod Assembler
pub mod EightCases
pub mod ValueRows
pub mod RunRows
