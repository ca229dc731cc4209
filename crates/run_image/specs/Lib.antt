-- What a run keeps of its image.
pub mod Constants
pub mod Table
