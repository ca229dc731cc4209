-- Laws on the codes, and on an image's bytes and content words.
pub mod Codes
pub mod Numbers
pub mod Takes
pub mod Sources
pub mod Images
pub mod Consequences
