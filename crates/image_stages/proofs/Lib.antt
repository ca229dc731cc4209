-- Laws on the form of an image.
pub mod Then
pub mod Transcript
pub mod Steps
pub mod Tellings
