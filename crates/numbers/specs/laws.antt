pub mod Number
pub mod Outcomes
