pub mod Given
pub mod Written
pub mod Hgv
pub mod Promises
pub mod laws
