-- Laws. The check of the instructions of a section, each by its numbers.
pub mod Judging
pub mod Clauses
