pub mod Imported
pub mod Handed
pub mod Call
pub mod Import
pub mod Shown
pub mod Promises
pub mod laws
