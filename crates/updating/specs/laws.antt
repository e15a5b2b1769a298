pub mod Call
pub mod Numbers
pub mod Fits
pub mod Outcomes
pub mod Shown
