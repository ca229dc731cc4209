-- Laws of the walk from list to list.
pub mod Walking
