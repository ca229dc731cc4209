-- What the contracts on print cite.
pub mod Prints
