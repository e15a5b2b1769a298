pub mod Swept
pub mod Sweep
pub mod Promises
pub mod laws
