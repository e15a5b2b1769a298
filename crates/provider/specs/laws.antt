pub mod Held
pub mod Told
pub mod Outcomes
