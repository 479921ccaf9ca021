pub mod Members
pub mod Sameness
pub mod Telling
pub mod Staying
pub mod Painting
pub mod Adding
pub mod Placing
pub mod Turning
pub mod Gathering
pub mod Crossing
pub mod Stepping
mod Comparing
