-- What the contracts on messages cite.
pub mod Puts
pub mod Messages
