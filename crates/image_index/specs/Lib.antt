-- What is where in an image's bytes, and an index of it.
pub mod Lists
