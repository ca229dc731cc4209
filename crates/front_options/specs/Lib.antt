-- What the contracts on options cite.
pub mod Kinds
pub mod Reading
pub mod Given
pub mod Budgets
