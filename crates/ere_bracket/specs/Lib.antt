-- Brackets of EREs: classes as words, and what the reading functions answer.
pub mod Items
pub mod Answer
