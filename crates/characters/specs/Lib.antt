pub mod Characters
pub mod Promises
pub mod laws
