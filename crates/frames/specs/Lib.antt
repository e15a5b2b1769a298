pub mod Frames
pub mod Promises
pub mod laws
