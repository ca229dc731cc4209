-- Fields joined, and assigned.
pub mod Stores
