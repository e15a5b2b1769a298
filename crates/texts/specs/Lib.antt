pub mod Field
pub mod Promises
pub mod laws
