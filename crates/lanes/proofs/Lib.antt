-- The laws on blocks of bytes that are passed, and that are copied, on the lanes of a word, on pairs of bytes, and on
-- parts.
pub mod Passed
pub mod Lanes
pub mod Nearing
pub mod Runs
pub mod Standing
