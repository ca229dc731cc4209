-- The check of the instructions of a section, each by its numbers.
pub mod Judge
