-- Laws on spans, and on what is answered of a record.
pub mod Entering
pub mod Inside
