pub mod Texts
pub mod Matching
pub mod Outcomes
