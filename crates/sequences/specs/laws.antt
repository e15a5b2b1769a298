pub mod Length
pub mod Coverage
pub mod Outcomes
