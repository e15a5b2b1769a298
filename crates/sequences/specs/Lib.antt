pub mod Sequence
pub mod Promises
pub mod laws
