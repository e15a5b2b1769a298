pub mod Parts
pub mod Outcomes
