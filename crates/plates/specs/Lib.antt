pub mod Plate
pub mod Promises
pub mod laws
