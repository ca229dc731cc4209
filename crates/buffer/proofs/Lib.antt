-- The laws on parts, lent parts, order and search.
pub mod Parts
pub mod Lent
pub mod Ordering
pub mod First
