pub mod Field
pub mod Pieces
pub mod Outcomes
