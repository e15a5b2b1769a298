pub mod Stands
pub mod Outcomes
