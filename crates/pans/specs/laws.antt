pub mod Pan
pub mod Outcomes
