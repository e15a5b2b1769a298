pub mod Number
pub mod Promises
pub mod laws
