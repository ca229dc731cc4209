-- Demand 3 as one claim.
pub mod Demand
