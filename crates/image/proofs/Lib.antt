-- Laws on passes, and on what reader and writer answer.
pub mod Stage
pub mod Passing
pub mod Copies
