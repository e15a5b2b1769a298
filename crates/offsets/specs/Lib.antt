pub mod Offset
pub mod Ahead
pub mod Promises
pub mod laws
