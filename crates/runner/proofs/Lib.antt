-- Laws of a run.
pub mod Sections
pub mod Loading
pub mod Reporting
pub mod Exactly
