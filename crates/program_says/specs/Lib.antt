-- The trees that derivations of programs say, and what is claimed of the reader beside them.
pub mod Trees
pub mod Claims
