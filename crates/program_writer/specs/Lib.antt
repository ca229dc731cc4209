-- The image of a program whose words are numbered, written if it fits.
pub mod Answer
