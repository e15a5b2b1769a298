pub mod Moment
pub mod Date
pub mod Order
pub mod Back
pub mod Almanac
pub mod Outcomes
