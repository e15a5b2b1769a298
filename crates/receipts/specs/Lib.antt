pub mod Receipt
pub mod Promises
pub mod laws
