pub mod Register
pub mod Promises
pub mod laws
