-- What is where in an image: its header, texts, constants and instructions, read from its bytes.
pub mod Stands
pub mod Header
