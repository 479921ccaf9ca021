pub mod Weights
pub mod Jobs
pub mod Homes
