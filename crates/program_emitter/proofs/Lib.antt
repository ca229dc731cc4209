-- Laws on words and on runs of stores.
pub mod Packed
pub mod Stores
