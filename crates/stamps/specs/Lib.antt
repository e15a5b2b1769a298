pub mod Stamp
pub mod Promises
pub mod laws
