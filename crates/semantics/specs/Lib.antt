-- The state of a run, the operations, the moves, the run with a budget, where a run is stuck, and the check of an
-- image.
pub mod Variables
pub mod Feed
pub mod World
pub mod Operations
pub mod Moves
pub mod Run
pub mod Stuck
pub mod Check
pub mod Checked
