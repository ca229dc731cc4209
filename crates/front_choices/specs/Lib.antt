-- What the contracts on choices cite.
pub mod Choices
pub mod Statuses
