-- Laws on numbers: of signed machine numbers, and of the distance from the least number.
pub mod Integers
pub mod Bias
pub mod Quotients
pub mod Division
