pub mod Weights
pub mod Kilograms
pub mod Promises
pub mod laws
