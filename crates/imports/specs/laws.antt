pub mod Accepted
pub mod Numbers
pub mod Follows
pub mod Thin
pub mod Told
pub mod Outcomes
pub mod Shown
pub mod Form
