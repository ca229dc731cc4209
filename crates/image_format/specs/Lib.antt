-- What an image has, the codes of its instructions, and its bytes and content words.
pub mod Codes
pub mod Image
pub mod Numbers
pub mod Reading
pub mod Writing
pub mod Formed
