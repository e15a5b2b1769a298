pub mod Stamp
pub mod Coverage
pub mod Outcomes
