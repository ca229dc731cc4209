-- The test and the search against the meaning.
pub mod Tests
pub mod Leading
pub mod Answers
pub mod Moving
