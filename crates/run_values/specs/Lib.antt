-- What the operations on values do to the working room.
pub mod Codes
pub mod Left
pub mod Answers
