pub mod Coverage
pub mod Outcomes
pub mod Issued
