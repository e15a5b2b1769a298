pub mod Listed
pub mod Spans
pub mod Outcomes
