pub mod Lookup
pub mod Promises
pub mod laws
