-- What the contracts on automata cite.
pub mod Automata
