pub mod Since
pub mod Outcomes
