-- The users' names of a filter text, by a walk over its tokens.
pub mod Walk
