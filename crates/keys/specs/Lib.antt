pub mod Keys
pub mod Less
pub mod Promises
pub mod laws
