-- Laws of the operations on values.
pub mod Steps
pub mod Computing
pub mod Judging
pub mod Orders
pub mod Wording
