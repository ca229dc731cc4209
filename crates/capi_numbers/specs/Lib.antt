-- What is taken as given of the answers whose numbers are stored.
pub mod Match
