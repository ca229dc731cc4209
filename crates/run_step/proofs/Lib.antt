-- Laws of a step.
pub mod Stores
pub mod Advance
pub mod Separated
pub mod Worked
pub mod Moving
pub mod Reaching
pub mod Valued
pub mod Flowing
pub mod Got
pub mod Assigning
pub mod Matching
pub mod Printing
pub mod Asking
