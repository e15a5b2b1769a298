pub mod Header
pub mod Coverage
pub mod Outcomes
