pub mod Whole
pub mod Moved
pub mod Shift
pub mod Outcomes
