pub mod Faultless
pub mod Coverage
pub mod Agree
pub mod Ends
pub mod Starred
pub mod Outcomes
