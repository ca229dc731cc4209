-- What separates fields, the fields of a record, and what splitting answers.
pub mod Separator
pub mod Field
pub mod Meaning
pub mod Splitting
