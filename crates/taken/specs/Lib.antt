pub mod Taken
pub mod Promises
pub mod laws
