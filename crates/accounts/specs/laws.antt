pub mod Account
pub mod Outcomes
