pub mod Layout
pub mod Outcomes
