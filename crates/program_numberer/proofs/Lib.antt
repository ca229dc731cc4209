-- Laws on operands by number.
pub mod Lists
pub mod Operands
pub mod Entering
pub mod Turns
