pub mod Thin
pub mod Outcomes
