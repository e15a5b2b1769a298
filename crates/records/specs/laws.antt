pub mod Written
pub mod Slot
pub mod Holds
pub mod Stamped
pub mod Outcomes
