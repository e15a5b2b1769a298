pub mod Less
pub mod Outcomes
