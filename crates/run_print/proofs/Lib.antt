-- The laws on print.
pub mod Showing
pub mod Joined
pub mod Written
pub mod Prints
