pub mod Pairing
pub mod Firsts
pub mod Faithful
pub mod Backwards
pub mod Turns
pub mod Telling
