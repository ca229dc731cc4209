-- Laws on the kinds of separators, and on steps.
pub mod Separating
pub mod Stepping
