pub mod Plate
pub mod Outcomes
