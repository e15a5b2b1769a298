pub mod Pairing
pub mod Backwards
pub mod laws
