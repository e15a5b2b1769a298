pub mod Frames
pub mod Coverage
pub mod Outcomes
