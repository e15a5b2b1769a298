pub mod Claims
pub mod Promises
pub mod laws
