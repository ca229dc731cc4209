-- The bytes of an image, from tables of entries and from words by number; and its sizes.
pub mod Written
pub mod Pictured
pub mod Fitting
