-- A number off an image's bytes, and one written to a room.
pub mod Take
pub mod Room
