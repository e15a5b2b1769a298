pub mod Confirmation
pub mod Fields
pub mod Whole
pub mod Outcomes
