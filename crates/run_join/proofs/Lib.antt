-- Laws on fields joined and assigned.
pub mod Assigned
pub mod Stored
