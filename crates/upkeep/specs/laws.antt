pub mod Stays
pub mod Makes
