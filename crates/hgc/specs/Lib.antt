pub mod Confirmation
pub mod Promises
pub mod laws
