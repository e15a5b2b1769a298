pub mod Sound
pub mod Outcomes
