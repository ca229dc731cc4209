-- Laws on the bytes of an image's parts, and on its sizes.
pub mod Remaining
pub mod Parts
pub mod Judged
pub mod Assembled
