pub mod Prepared
pub mod Others
pub mod Touched
pub mod Follows
pub mod Outcomes
