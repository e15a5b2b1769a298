pub mod Stops
pub mod Kept
pub mod Built
pub mod Outcomes
