pub mod Holdings
pub mod Room
pub mod Places
pub mod Promises
pub mod laws
