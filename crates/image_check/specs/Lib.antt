pub mod Sections
pub mod Verdict
