pub mod Stops
pub mod Clear
pub mod Promises
pub mod laws
