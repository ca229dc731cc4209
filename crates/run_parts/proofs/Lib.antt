-- Laws. All fields of the record measured, and joined into the other record.
pub mod Grown
pub mod Joined
pub mod Measured
pub mod Bounded
