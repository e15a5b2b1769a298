pub mod Register
pub mod Outcomes
