pub mod Kilograms
pub mod Outcomes
