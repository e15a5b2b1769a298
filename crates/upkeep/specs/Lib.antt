pub mod Holds
pub mod Makes
pub mod laws
