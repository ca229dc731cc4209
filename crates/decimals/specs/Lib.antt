-- What the contract on decimal texts cites.
pub mod Decimal
