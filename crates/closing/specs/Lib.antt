pub mod Closing
pub mod Promises
pub mod laws
