pub mod Fit
pub mod Promises
pub mod laws
