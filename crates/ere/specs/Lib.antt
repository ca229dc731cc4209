-- What `compile` and `search` answer.
pub mod Answer
