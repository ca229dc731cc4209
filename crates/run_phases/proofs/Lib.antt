-- Laws. The sections of a run: a loop of steps, the records read between them, and the start.
pub mod Turning
pub mod Recording
pub mod First
