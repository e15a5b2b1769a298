pub mod Again
pub mod Order
pub mod Outcomes
