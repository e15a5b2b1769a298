pub mod Verdict
pub mod Outcomes
