pub mod Stands
pub mod Promises
pub mod laws
