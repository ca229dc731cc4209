-- Laws on the record and its fields.
pub mod Replaced
