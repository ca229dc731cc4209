-- Laws. What is where in an image: its header, texts, constants and instructions, read from its bytes.
pub mod Standing
pub mod Fetching
pub mod Following
