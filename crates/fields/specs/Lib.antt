-- What the code's own values stand for.
pub mod Answer
