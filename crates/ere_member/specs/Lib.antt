-- What the contracts on members of brackets cite.
pub mod Members
