pub mod Put
pub mod Laid
pub mod Outcomes
