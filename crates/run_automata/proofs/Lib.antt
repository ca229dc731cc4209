-- The laws on the pool of automata.
pub mod Filling
pub mod Deriving
