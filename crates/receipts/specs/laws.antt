pub mod HeadCoverage
pub mod Written
pub mod Outcomes
