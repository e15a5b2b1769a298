pub mod Rules
pub mod Faultless
pub mod End
pub mod Promises
pub mod laws
