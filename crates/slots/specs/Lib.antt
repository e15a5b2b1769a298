pub mod Slots
pub mod Search
pub mod Promises
pub mod laws
