-- What the translator answers, and what it has once a text is read.
pub mod ReadAs
pub mod Tabulated
