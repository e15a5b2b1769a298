pub mod Vehicle
pub mod Promises
pub mod laws
