pub mod Only
pub mod Found
pub mod Outcomes
