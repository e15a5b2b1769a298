pub mod CanStore
pub mod Promises
pub mod laws
