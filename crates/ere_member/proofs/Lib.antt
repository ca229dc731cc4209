-- The laws on members of brackets.
pub mod Reading
