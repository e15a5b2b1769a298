pub mod Copy
pub mod Promises
pub mod laws
