-- Laws on messages.
pub mod Meanings
