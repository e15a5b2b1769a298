pub mod Slots
pub mod Search
pub mod Outcomes
