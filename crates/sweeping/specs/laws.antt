pub mod Sweep
pub mod Outcomes
