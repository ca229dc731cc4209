-- What a run's machine stands for, and what a step does.
pub mod Machine
pub mod Standing
