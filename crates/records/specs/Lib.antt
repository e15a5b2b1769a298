pub mod Slot
pub mod Promises
pub mod laws
