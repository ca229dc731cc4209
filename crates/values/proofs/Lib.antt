-- What the operations on values give, without their text.
pub mod Orders
pub mod Comparison
pub mod Truth
pub mod Texts
pub mod Numbers
