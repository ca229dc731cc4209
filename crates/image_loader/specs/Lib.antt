-- What is loaded of an image before it is run.
pub mod Loads
