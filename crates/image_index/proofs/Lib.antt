-- Laws on what is in an image, and on the entries of an index.
pub mod Entering
pub mod Indexing
