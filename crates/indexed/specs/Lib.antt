pub mod Indexed
pub mod Promises
pub mod laws
