-- What the contracts on places cite.
pub mod Places
pub mod Shown
pub mod Window
