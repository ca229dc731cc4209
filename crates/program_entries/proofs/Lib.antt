-- Laws on entries and variables.
pub mod Strings
pub mod SpecialNames
pub mod Placing
pub mod Spans
pub mod Naming
pub mod Walking
pub mod Holding
pub mod Turns
pub mod Users
pub mod Named
