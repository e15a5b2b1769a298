pub mod Idle
pub mod Sides
