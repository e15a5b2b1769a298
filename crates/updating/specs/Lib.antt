pub mod Sent
pub mod Update
pub mod Shown
pub mod Promises
pub mod laws
