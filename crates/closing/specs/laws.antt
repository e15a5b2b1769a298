pub mod Closing
pub mod Outcomes
