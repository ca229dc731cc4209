-- Laws on the numbers of answers.
pub mod Within
