-- Laws. The record in the working room: fields split off as far as one is asked for, FS, and numbers of fields.
pub mod Turn
pub mod Stored
