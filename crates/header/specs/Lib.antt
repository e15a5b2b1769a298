pub mod Header
pub mod Promises
pub mod laws
