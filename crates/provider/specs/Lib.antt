pub mod Counted
pub mod Answer
pub mod Promises
pub mod laws
