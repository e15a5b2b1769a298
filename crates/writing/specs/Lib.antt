pub mod Put
pub mod Promises
pub mod laws
