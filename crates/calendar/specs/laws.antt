pub mod Bounds
pub mod Order
pub mod Years
pub mod Back
pub mod Outcomes
