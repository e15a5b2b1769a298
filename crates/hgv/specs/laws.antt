pub mod Layout
pub mod Built
pub mod Outcomes
