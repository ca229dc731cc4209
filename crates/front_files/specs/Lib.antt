-- What the contracts on files cite.
pub mod Filling
pub mod Joining
