-- Laws on places and on lines that are shown.
pub mod Counting
pub mod Widths
pub mod Around
