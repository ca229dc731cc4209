-- The sections of a run: a loop of steps, the records read between them, and the start.
pub mod Phases
pub mod Starts
