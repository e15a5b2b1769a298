pub mod ReadBack
pub mod Promises
pub mod laws
