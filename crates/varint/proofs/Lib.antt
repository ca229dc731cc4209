-- Laws on the groups of a number, and on rooms.
pub mod Groups
pub mod Words
pub mod Puts
pub mod Bytes
