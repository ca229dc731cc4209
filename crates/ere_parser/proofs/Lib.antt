-- Laws on atoms, and on a group's end.
pub mod Atomic
pub mod Leaving
pub mod Steps
pub mod Grows
pub mod Built
pub mod Turning
pub mod Items
pub mod Moving
