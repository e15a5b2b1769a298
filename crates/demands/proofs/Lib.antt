pub mod Mirror
pub mod Sweeps
pub mod Weighed
pub mod Replays
pub mod Indexed
pub mod Demand3
pub mod Weights
