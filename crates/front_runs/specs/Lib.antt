-- What the contracts on images and runs cite.
pub mod Images
pub mod Runs
