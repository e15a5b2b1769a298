pub mod Places
pub mod Held
pub mod Firsts
pub mod Named
pub mod Outcomes
