pub mod Clear
pub mod Outcomes
