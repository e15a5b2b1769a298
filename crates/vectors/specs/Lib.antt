pub mod Vectors
pub mod Promises
pub mod laws
