-- Laws on fields.
pub mod Runs
pub mod Turns
pub mod Fronts
pub mod Weaving
pub mod OneByte
pub mod Blanks
pub mod Separators
