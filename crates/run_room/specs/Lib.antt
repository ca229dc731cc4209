-- The working room.
pub mod Layout
pub mod Room
pub mod Held
