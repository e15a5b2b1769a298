pub mod Promises
pub mod laws
