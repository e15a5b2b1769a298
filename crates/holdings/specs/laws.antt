pub mod Storing
pub mod Room
pub mod Places
pub mod Outcomes
