-- What is claimed of the reader of programs beside the grammar, and the grammar as a machine that takes one kind of
-- token at a time; the trees that derivations say.
pub mod Claims
pub mod Machine
pub mod Trees
