pub mod Pan
pub mod Promises
pub mod laws
