-- Laws on options.
pub mod Walking
