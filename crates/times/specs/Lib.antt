pub mod Time
pub mod Seconds
pub mod Order
pub mod Promises
pub mod laws
