-- Laws on the check and the run of an image.
pub mod Specials
pub mod Tables
pub mod Checks
pub mod Actions
pub mod NeverStuck
pub mod Budget
pub mod ImageSizes
pub mod Walks
pub mod Frames
pub mod Records
pub mod Outcomes
pub mod Shapes
pub mod StuckExactly
