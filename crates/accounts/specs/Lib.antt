pub mod Account
pub mod Promises
pub mod laws
