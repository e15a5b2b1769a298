pub mod Files
pub mod Computed
pub mod Idle
pub mod Sides
