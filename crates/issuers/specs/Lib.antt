pub mod Rows
pub mod Promises
pub mod laws
