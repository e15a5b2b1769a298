pub mod Ranges
pub mod Promises
pub mod laws
