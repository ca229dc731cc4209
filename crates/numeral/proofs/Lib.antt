-- Laws and theorems on numerals.
pub mod Runs
pub mod Values
pub mod Prefixes
pub mod Judging
pub mod Numerals
pub mod Look
pub mod RoundTrip
