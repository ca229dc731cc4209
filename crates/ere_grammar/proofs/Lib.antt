pub mod Laws
pub mod Bracket
pub mod Sound
pub mod Complete
pub mod Reading
pub mod Refusals
pub mod Marks
