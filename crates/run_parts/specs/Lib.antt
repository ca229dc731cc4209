-- All fields of the record measured, and joined into the other record.
pub mod Join
