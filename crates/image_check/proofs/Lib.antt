-- Laws of the check by numbers.
pub mod Fitting
pub mod Deciding
