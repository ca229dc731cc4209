-- Laws on tests, on elements of lists, on parsers and on the digits of words.
pub mod Tests
pub mod Options
pub mod Says
pub mod Elements
pub mod Leading
pub mod Many
pub mod Digits
