pub mod Calendar
pub mod Bounds
pub mod Promises
pub mod laws
