-- Laws on words.
pub mod Walking
