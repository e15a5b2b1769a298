pub mod Found
pub mod Unmarked
pub mod Sorted
pub mod Outcomes
