pub mod Writer
pub mod laws
