pub mod Fields
pub mod Passes
pub mod Verdicts
pub mod Same
pub mod Written
