pub mod Thin
pub mod Promises
pub mod laws
