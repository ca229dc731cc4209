-- Where a walk over an image is, and where it goes.
pub mod Stages
